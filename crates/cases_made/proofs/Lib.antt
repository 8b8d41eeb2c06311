mod Driving
